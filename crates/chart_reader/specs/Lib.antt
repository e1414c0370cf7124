pub mod Depth
pub mod Faults
pub mod Reads
pub mod Whole
pub mod chart_nodes
pub mod chart_rules
pub mod model_charts
pub mod scope_laws
