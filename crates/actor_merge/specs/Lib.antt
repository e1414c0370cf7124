pub mod Mail
pub mod Parties
pub mod World
pub mod Merge
pub mod History
