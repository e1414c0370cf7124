pub mod Ports
pub mod References
pub mod Mappings
pub mod value_parser
