pub mod Table
pub mod Numbers
pub mod Standing
pub mod Batches
pub mod Examples
