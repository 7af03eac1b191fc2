pub mod Codes
pub mod Refusals
pub mod Distinct
pub mod Causes
pub mod Store
pub mod Archiving
pub mod Sparing
