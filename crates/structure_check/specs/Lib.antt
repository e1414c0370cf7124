pub mod Rules
pub mod List
pub mod Classes
pub mod Checks
pub mod Ranks
