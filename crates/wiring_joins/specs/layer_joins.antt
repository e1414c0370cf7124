pub mod Index
pub mod Indexes
