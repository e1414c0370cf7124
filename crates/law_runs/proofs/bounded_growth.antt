pub mod Raised
pub mod First
pub mod Grown
