pub mod FoldLemmas
pub mod ProgramLemmas
pub mod SoundLemmas
pub mod TypingLemmas
