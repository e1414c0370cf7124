pub mod Containment
pub mod Walks
