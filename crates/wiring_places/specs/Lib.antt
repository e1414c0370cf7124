pub mod binding_stretches
pub mod place_pairs
pub mod place_rules
pub mod place_spans
pub mod slot_children
