pub mod NameLaws
pub mod KeyLaws
mod ByOctets
pub mod GivenLaws
mod Rows
pub mod PairLaws
pub mod SpanLaws
pub mod RangeTexts
pub mod Short
