pub mod Steps
pub mod Pairing
pub mod Tops
pub mod TextTrees
pub mod Paths
