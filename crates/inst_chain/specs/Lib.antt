pub mod Boxes
pub mod Heads
pub mod Items
pub mod Linked
pub mod Nodes
pub mod Owning
pub mod Sights
