pub mod Tables
pub mod Minds
