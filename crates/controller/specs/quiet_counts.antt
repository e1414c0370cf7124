pub mod Counts
pub mod Stands
