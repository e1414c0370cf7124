pub mod Alike
pub mod Charts
