pub mod ProgramLemmas
pub mod TypingLemmas
