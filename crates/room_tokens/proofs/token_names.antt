pub mod NamesLaw
pub mod Parts
