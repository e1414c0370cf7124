pub mod Few
pub mod Steps
pub mod One
