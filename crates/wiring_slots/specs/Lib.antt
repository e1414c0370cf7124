pub mod slot_names
pub mod slot_tree
pub mod wired_laws
pub mod model_slots
