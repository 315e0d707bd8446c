pub mod HeardLemmas
pub mod HearingLemmas
pub mod KindLemmas
pub mod LinesLemmas
pub mod NameLemmas
pub mod PlaceLemmas
pub mod ResultLemmas
pub mod UnbornLemmas
