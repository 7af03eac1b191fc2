pub mod Texts
pub mod Turns
pub mod Whole
pub mod Facts
pub mod Laid
pub mod ReadsBack
pub mod Places
pub mod Printing
