pub mod Classes
pub mod Ports
pub mod References
pub mod Types
pub mod Attributes
pub mod Charts
