pub mod Clocks
pub mod Renewing
pub mod Told
