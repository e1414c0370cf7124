pub mod charts
pub mod worlds
