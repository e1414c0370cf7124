pub mod binding_rules
pub mod structure_rules
