pub mod ToldLaw
pub mod EndLaw
