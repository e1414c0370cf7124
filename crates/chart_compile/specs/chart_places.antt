pub mod Places
pub mod Groups
