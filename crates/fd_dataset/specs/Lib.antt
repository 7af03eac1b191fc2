pub mod Listed
pub mod Causes
