pub mod Chart
pub mod Named
pub mod Acting
pub mod States
pub mod Valid
pub mod chart_plan
