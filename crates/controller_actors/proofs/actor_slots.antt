pub mod Occupying
pub mod Priorities
pub mod Working
