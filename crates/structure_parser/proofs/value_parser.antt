pub mod ExactNames
pub mod ExactValues
pub mod ExactProtocols
