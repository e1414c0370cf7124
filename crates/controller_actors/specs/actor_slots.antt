pub mod Occupants
pub mod Slots
