pub mod Joined
pub mod chart_numbers
pub mod chart_parts
pub mod chart_places
