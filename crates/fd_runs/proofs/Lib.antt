mod Steps
mod Blocks
mod Lanes
mod Turns
mod Whole
mod Scripts
