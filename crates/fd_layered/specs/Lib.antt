pub mod Chains
pub mod Laying
pub mod Ready
pub mod Finding
