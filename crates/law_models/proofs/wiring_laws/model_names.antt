pub mod Lists
pub mod Signals
pub mod Ports
pub mod Models
