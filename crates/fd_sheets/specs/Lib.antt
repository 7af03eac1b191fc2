pub mod Names
pub mod Opened
pub mod Parts
pub mod Reading
pub mod Sheets
pub mod Dealt
