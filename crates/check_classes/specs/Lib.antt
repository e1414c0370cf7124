pub mod class_rules
pub mod class_sizes
