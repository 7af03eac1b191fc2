pub mod OpenTable
pub mod Lists
pub mod Writes
pub mod Calls
pub mod Sound
pub mod Causes
pub mod Slots
