pub mod Plants
pub mod Runs
pub mod Worlds
