pub mod ExactCodes
pub mod ExactGraphs
