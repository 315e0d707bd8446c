pub mod Filling
pub mod RenumberedPrograms
pub mod Renumbering
