pub mod Spots
pub mod Keys
pub mod Jobs
pub mod Only
