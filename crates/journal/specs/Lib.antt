pub mod Names
pub mod Lines
pub mod Text
pub mod Fits
