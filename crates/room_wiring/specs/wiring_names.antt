pub mod Lookup
pub mod Tables
pub mod Hashes
pub mod Index
