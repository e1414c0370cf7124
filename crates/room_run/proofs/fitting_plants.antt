mod Tables
pub mod Lines
pub mod Plants
pub mod Runs
pub mod Worlds
