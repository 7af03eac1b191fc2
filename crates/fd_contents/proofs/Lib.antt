mod Names
mod Texts
mod Looked
mod Printing
mod Whole
mod Opened
mod Partial
mod Exits
mod Noticed
mod Firmly
mod Listed
mod Gathered
mod Askable
mod CubeExits
pub mod CubesDone
