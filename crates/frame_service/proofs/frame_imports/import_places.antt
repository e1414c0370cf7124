pub mod Written
pub mod Ended
