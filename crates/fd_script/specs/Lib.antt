pub mod Lines
pub mod Grammar
pub mod Scripts
pub mod Growing
pub mod Reading
pub mod FaultTexts
