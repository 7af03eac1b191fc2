pub mod Spelled
pub mod Laid
