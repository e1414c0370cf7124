pub mod class_laws
pub mod joined_ports
pub mod quiet_worlds
pub mod settled_models
pub mod wiring_laws
