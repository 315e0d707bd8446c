pub mod Command
pub mod Numbers
pub mod Table
pub mod Plain
