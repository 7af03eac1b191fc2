pub mod Digits
pub mod AsciiLaws
pub mod AsciiTexts
pub mod Zeros
pub mod PieceLaws
mod Rows
pub mod ValueLaws
pub mod Again
pub mod AgainTimes
pub mod AgainLevels
pub mod AgainSteps
pub mod Shorter
pub mod ShortTexts
pub mod StatLaws
pub mod AgainStats
pub mod Spellings
