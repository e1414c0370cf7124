pub mod Parts
pub mod Plans
pub mod Steps
pub mod Walked
