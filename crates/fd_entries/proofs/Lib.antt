mod TableVectors
pub mod Digests
pub mod Slots
pub mod StandingLemmas
pub mod Inverse
mod Faults
mod Octets
pub mod Reading
pub mod BatchSums
mod RowReading
pub mod SlotReading
pub mod SlotNumbers
