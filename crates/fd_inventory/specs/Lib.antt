pub mod Keys
pub mod Shown
pub mod Indexes
pub mod Written
pub mod Counted
pub mod Axes
pub mod Found
pub mod Recorded
