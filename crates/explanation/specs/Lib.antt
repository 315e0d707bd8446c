pub mod HeardLines
pub mod Hearing
pub mod HearingView
pub mod Explained
pub mod ExplainedLaws
pub mod Telling
