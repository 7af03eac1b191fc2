mod Totals
mod Prefixes
mod Doubts
mod Seats
mod Same
pub mod Settling
mod Carried
mod Accounting
mod Turns
mod Locks
mod Passes
mod Publishing
mod Ends
