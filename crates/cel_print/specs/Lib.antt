pub mod Words
pub mod ScalarWords
pub mod PredicateWords
pub mod SourceWords
pub mod StatementWords
pub mod Spelled
pub mod Parts
pub mod Laws
