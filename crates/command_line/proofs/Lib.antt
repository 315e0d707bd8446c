pub mod CommandLemmas
pub mod JobLemmas
pub mod PlainLemmas
pub mod RangeLemmas
pub mod TwiceLemmas
