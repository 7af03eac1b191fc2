pub mod World
pub mod Machine
pub mod Took
pub mod Laws
