pub mod Answers
pub mod Fitting
pub mod Order
pub mod Reading
pub mod Snapshot
pub mod Spelling
