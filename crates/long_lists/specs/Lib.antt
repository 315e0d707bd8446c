pub mod Blocks
pub mod Free
pub mod SumTree
