pub mod Groups
pub mod Lanes
pub mod Turns
pub mod Bytes
