pub mod class_scopes
pub mod number_kinds
