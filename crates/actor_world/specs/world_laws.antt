pub mod Counting
pub mod Whereabouts
pub mod OnePlace
pub mod Losses
pub mod Example
pub mod Deferrals
