pub mod Cycle
pub mod Laws
pub mod Marks
pub mod Order
pub mod Outcome
pub mod Readers
