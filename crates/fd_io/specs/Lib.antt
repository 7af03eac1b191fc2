pub mod Streams
pub mod Plan
pub mod Memory
