pub mod Writing
pub mod History
pub mod Choice
pub mod Deferring
pub mod Points
pub mod Guards
