pub mod Buffers
pub mod Calls
pub mod Kept
pub mod Left
pub mod Past
pub mod Plans
pub mod Told
