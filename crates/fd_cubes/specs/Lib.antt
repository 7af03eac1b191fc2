pub mod Cubes
pub mod Joining
pub mod Axes
pub mod Grids
