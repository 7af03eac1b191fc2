pub mod Counts
pub mod Stopping
