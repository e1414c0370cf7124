pub mod class_tables
pub mod containment_rules
