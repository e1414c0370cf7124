pub mod Charts
pub mod chart_asks
