pub mod BitLemmas
pub mod Digits
pub mod Fits
pub mod Maps
pub mod Cursor
pub mod Reduced
