pub mod Joined
pub mod Seats
pub mod ByPriority
