pub mod ModelCharts
pub mod Asked
pub mod Laws
pub mod chart_asks
pub mod chart_defers
pub mod sends
