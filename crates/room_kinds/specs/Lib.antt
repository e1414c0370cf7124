pub mod Kinds
pub mod Messages
pub mod Names
pub mod Reduction
pub mod Structure
