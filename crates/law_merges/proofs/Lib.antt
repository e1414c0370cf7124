pub mod Parties
pub mod One
pub mod Rise
pub mod Bounds
pub mod Cuts
