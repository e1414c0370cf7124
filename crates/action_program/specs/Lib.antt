pub mod Arithmetic
pub mod Numbered
pub mod Meaning
pub mod Named
