pub mod Announced
pub mod Parts
