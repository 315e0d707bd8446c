pub mod HearingLemmas
pub mod NumberLemmas
pub mod PublishingLemmas
pub mod StreamLemmas
