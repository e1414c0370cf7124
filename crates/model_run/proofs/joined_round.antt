pub mod JoinLaw
pub mod SeatLaw
pub mod Shared
pub mod PriorityLaw
