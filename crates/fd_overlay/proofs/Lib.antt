pub mod Nearest
pub mod Merging
