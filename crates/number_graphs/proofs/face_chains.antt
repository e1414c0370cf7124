pub mod Steps
pub mod Known
pub mod Joining
pub mod FarEnds
pub mod Shown
