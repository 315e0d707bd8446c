pub mod Faults
pub mod Joining
pub mod Schema
pub mod Streams
pub mod Table
