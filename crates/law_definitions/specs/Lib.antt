pub mod Codes
pub mod Imported
pub mod Owners
pub mod Places
pub mod message_forms
