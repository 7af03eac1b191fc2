pub mod Feeding
pub mod Found
pub mod Halted
pub mod Run
pub mod Streams
pub mod Parted
pub mod Creating
pub mod Generating
