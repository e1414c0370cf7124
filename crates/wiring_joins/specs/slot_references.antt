pub mod Referred
pub mod Types
