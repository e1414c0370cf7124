pub mod Cutting
pub mod NumberSteps
pub mod FetchSteps
