pub mod Services
pub mod Steps
pub mod Asking
