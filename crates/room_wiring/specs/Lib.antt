pub mod Slots
pub mod Places
pub mod Paths
pub mod Consistent
pub mod Single
pub mod WellNamed
pub mod wiring_names
