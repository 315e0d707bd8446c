pub mod NumbersLemmas
pub mod TurnsLemmas
pub mod OrderLemmas
