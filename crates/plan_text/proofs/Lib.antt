pub mod ListedLemmas
pub mod OnceLemmas
pub mod PlanLemmas
