mod Tables
mod Histories
pub mod Walking
pub mod Receipts
mod Legality
mod Stepping
mod Rooms
mod Keeping
mod Running
mod Placing
mod Rows
mod Crews
mod Taking
pub mod Answering
