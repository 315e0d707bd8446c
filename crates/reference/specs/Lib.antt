pub mod Closing
pub mod Hearing
pub mod Laws
pub mod Views
