pub mod Walks
pub mod Places
pub mod Rules
pub mod Wireds
pub mod TextTrees
