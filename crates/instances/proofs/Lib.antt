pub mod BirthLemmas
pub mod BoundLemmas
