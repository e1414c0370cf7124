pub mod Services
pub mod Timers
pub mod Turns
pub mod Expansion
pub mod Examples
pub mod Laws
