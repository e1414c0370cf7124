pub mod Judging
pub mod FillSteps
pub mod FullSinkSteps
pub mod InRangeLaw
