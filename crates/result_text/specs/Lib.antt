pub mod Front
pub mod Quick
pub mod Tails
pub mod Written
