pub mod Epochs
pub mod Keys
pub mod LateStarts
pub mod Spans
