pub mod Powers
pub mod Nearest
