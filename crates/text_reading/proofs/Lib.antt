pub mod CutSteps
pub mod Values
pub mod Decimals
