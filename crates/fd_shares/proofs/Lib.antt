pub mod Dealing
pub mod Filled
pub mod Storing
pub mod Sharing
pub mod Rounds
pub mod Shares
pub mod Listing
