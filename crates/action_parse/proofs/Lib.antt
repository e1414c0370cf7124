pub mod Grouping
pub mod Derived
pub mod Complete
pub mod Steps
pub mod Judged
