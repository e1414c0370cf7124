pub mod Ways
pub mod Behind
pub mod Wireds
pub mod Names
pub mod Found
