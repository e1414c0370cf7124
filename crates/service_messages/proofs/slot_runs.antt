pub mod RunLemmas
pub mod Made
pub mod Kept
pub mod Sought
pub mod Searched
pub mod OwnParts
