pub mod Read
pub mod Joined
pub mod Lists
pub mod MarkLaws
