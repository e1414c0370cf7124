pub mod count_rules
pub mod mapping_rules
