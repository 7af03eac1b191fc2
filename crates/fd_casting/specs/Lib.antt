pub mod Steps
pub mod Miscasts
pub mod Done
pub mod Texts
