pub mod Expected
pub mod Parsed
pub mod action_reading
