pub mod Damages
pub mod Located
pub mod Finding
pub mod Rounds
