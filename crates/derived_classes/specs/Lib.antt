pub mod Codes
pub mod Refining
pub mod Grouping
pub mod Searching
pub mod Keys
pub mod Views
pub mod Derived
