pub mod Taking
pub mod Naming
