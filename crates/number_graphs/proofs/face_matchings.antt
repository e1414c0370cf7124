pub mod Matchings
pub mod Places
