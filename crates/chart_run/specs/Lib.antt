pub mod Machines
pub mod ByName
pub mod chart_tables
