pub mod Numerals
pub mod Fields
pub mod Messages
pub mod Drafts
pub mod Fetches
pub mod Reading
