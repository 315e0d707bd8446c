pub mod AskedLemmas
pub mod ListedLemmas
