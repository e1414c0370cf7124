mod Dispatched
pub mod Worlds
