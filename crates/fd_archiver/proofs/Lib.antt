pub mod Keeping
pub mod Owning
pub mod Sealing
pub mod Listing
pub mod Emptied
