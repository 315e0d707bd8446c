pub mod BeginLemmas
pub mod BornLemmas
pub mod Examples
pub mod LateLemmas
pub mod LeastBirthLemmas
pub mod OneBirthLemmas
pub mod ProgramLemmas
pub mod SoundLemmas
