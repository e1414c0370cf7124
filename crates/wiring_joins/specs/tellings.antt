pub mod Told
pub mod Marked
