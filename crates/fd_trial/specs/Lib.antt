pub mod Made
pub mod Placed
pub mod Ruling
pub mod Asking
pub mod Telling
pub mod Size
