pub mod Plain
pub mod Rules
pub mod Cuts
pub mod Grammar
pub mod Seen
pub mod Reading
pub mod Printed
pub mod FaultTexts
