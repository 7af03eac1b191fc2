pub mod Gathered
pub mod Standing
pub mod Trails
