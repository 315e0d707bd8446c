pub mod FillingLemmas
pub mod Renumbered
pub mod RenumberedReports
pub mod RenumberedStores
