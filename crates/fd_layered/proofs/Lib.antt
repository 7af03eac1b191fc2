pub mod Chaining
pub mod Laying
pub mod NearestLemmas
pub mod PreparingLemmas
pub mod Over
pub mod Noticing
