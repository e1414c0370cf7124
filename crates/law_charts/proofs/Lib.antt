pub mod ByCharts
pub mod ChartsAlike
pub mod Doings
pub mod Events
pub mod RunsLaw
pub mod Treating
pub mod Worlds
