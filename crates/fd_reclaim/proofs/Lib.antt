mod Leaving
mod Halting
mod Exits
