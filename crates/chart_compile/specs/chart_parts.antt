pub mod Parts
pub mod Nodes
pub mod Compiled
