pub mod Tables
pub mod Acts
pub mod Walks
pub mod Legal
pub mod Fits
pub mod Jobs
pub mod Rows
