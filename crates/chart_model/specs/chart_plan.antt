pub mod Plan
pub mod Handling
pub mod Same
