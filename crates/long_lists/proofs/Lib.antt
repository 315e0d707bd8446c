pub mod BlocksLemmas
pub mod FreeLemmas
pub mod SumTreeLemmas
pub mod SumsLemmas
