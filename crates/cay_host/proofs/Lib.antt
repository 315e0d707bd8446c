pub mod FilesLemmas
pub mod OutputLemmas
pub mod TallyLemmas
