pub mod PlaceSteps
pub mod JoinedLaw
pub mod AcrossLaw
