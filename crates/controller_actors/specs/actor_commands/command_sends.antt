pub mod Adding
pub mod Asking
