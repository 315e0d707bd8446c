pub mod KeyParts
pub mod LineOrder
pub mod QueryParts
pub mod Restarts
pub mod Wholes
