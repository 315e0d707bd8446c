pub mod Draws
pub mod Epochs
pub mod EventText
pub mod Laws
pub mod QueryText
