pub mod InRange
pub mod Outlines
pub mod Filled
