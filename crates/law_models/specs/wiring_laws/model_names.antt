pub mod Identifiers
pub mod Ports
