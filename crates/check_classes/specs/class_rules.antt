pub mod Names
pub mod Types
pub mod Ends
pub mod Loops
pub mod Systems
