mod Fronts
mod Noting
mod Sparing
mod Unread
mod Short
mod Parting
mod Telled
mod Wrongs
mod Ending
mod Halting
pub mod Commands
