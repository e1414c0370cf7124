pub mod Codes
pub mod Graphs
