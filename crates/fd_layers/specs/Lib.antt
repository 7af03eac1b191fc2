pub mod Based
pub mod Tables
