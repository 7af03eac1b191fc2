pub mod Taking
pub mod NumberLaws
pub mod FieldLaws
