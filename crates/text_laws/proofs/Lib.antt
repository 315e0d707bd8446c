pub mod Examples
pub mod OrderLemmas
pub mod QueryPartLemmas
pub mod SoundLemmas
pub mod SplitLemmas
pub mod TextLemmas
