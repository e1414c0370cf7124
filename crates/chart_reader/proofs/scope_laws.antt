pub mod Found
pub mod Programs
pub mod Codes
pub mod Reading
