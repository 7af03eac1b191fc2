pub mod Words
pub mod Written
pub mod Cuts
pub mod Places
