pub mod Damages
pub mod Causes
pub mod Looking
pub mod Recovered
pub mod Crashing
