pub mod Writing
pub mod Waiting
pub mod Whole
pub mod Flushing
pub mod Causes
pub mod Archiving
