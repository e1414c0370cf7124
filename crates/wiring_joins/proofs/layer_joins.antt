pub mod Lookups
pub mod Services
pub mod JoinSteps
