pub mod Sizes
pub mod Rules
