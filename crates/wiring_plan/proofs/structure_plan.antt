pub mod Walks
pub mod Turns
