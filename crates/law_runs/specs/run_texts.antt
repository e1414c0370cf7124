pub mod Events
pub mod Texts
pub mod Fetches
