pub mod Crashing
pub mod Kept
pub mod Telling
