pub mod Texts
pub mod Charts
