pub mod Texts
pub mod Counts
pub mod Summaries
pub mod Example
