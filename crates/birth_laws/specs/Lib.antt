pub mod BornChains
pub mod BornPrograms
pub mod LeastBirths
