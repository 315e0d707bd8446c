pub mod LengthLemmas
pub mod LineLemmas
pub mod PieceLemmas
pub mod QueryLemmas
