pub mod TableSteps
pub mod UntiedSteps
pub mod TiedGoing
