pub mod Lines
pub mod Sinks
pub mod Values
pub mod Numbers
pub mod Products
pub mod Describe
