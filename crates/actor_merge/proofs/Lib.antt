pub mod Lanes
pub mod Steps
pub mod Law
pub mod Back
pub mod Exists
pub mod Extend
pub mod Rounds
