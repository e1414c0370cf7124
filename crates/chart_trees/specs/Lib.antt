pub mod Around
pub mod Reading
pub mod Views
pub mod chart_codes
pub mod chart_graphs
