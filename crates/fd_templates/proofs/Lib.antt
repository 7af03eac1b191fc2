pub mod Reading
pub mod Again
pub mod SectionsAgain
pub mod Based
pub mod WholeLaws
pub mod RangesAgain
pub mod Growing
pub mod AnyAgain
