pub mod Fresh
pub mod Found
pub mod Back
pub mod Hashes
pub mod SlotClasses
