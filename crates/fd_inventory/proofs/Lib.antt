mod Asking
mod AxesOf
mod AxisLines
mod Batches
mod Copying
mod Counts
mod Finding
mod Keyed
mod Lengths
mod Lining
mod Newness
mod Pieces
mod Placing
mod Printed
pub mod Recording
pub mod Upserting
mod Wholes
