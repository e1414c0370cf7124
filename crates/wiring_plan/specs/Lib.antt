pub mod port_counts
pub mod structure_plan
pub mod wiring_classes
