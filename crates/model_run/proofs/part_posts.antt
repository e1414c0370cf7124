pub mod PostLaw
pub mod FitLaw
