pub mod Copying
pub mod Keeping
pub mod Caching
pub mod Newest
pub mod Saying
