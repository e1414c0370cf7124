pub mod Classes
pub mod Parsed
pub mod chart_parser
