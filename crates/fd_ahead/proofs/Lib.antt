mod Joining
mod Placing
