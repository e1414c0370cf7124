pub mod model_names
pub mod model_paths
pub mod name_tokens
pub mod slot_order
pub mod slot_paths
pub mod state_names
pub mod well_named_wiring
pub mod wiring_order
