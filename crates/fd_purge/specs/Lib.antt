pub mod Carrying
pub mod Causes
pub mod Dividing
pub mod Kept
pub mod Purging
pub mod Reads
pub mod Stored
