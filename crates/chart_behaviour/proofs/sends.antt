pub mod TurnSends
pub mod Turning
