pub mod Among
pub mod Buckets
pub mod Entries
pub mod Keyed
pub mod KeyedCode
pub mod KeyParts
pub mod Leads
pub mod Stores
