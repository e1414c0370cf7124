pub mod Classes
pub mod Fits
