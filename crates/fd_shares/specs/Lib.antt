pub mod Dealing
pub mod Merging
pub mod Working
pub mod Sharing
