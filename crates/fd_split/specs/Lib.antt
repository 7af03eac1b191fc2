pub mod Rounds
pub mod Reading
pub mod Seen
pub mod Limits
pub mod Inputs
pub mod Fields
pub mod Positions
