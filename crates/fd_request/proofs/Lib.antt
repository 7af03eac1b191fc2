pub mod Products
mod Examples
pub mod Cuts
pub mod Ends
pub mod RangeLaws
pub mod Reaches
pub mod Turns
pub mod Lengths
pub mod Places
pub mod Sizes
pub mod Choices
pub mod ReadAgain
pub mod Members
pub mod Spelling
