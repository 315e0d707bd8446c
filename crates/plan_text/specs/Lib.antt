pub mod Texts
pub mod Reads
pub mod Parts
pub mod Plan
