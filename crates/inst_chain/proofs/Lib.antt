pub mod Lending
pub mod Links
pub mod Starts
pub mod Steps
pub mod Walks
