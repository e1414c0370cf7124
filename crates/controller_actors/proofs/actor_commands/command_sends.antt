pub mod Sending
pub mod Broadcasting
