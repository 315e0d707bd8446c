pub mod FieldLemmas
pub mod LineLemmas
pub mod QuickLemmas
pub mod TailLemmas
