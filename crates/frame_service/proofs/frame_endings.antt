pub mod Back
pub mod EndSet
