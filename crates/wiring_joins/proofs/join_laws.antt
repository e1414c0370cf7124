pub mod Looks
pub mod Found
