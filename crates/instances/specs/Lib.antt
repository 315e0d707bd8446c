pub mod Alive
pub mod Births
pub mod Bounds
pub mod Keys
pub mod Plain
pub mod PlainCode
