pub mod Layers
pub mod Spots
pub mod Searching
