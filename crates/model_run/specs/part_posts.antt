pub mod Items
pub mod Posting
