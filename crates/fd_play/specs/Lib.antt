pub mod Staff
pub mod Plays
