pub mod LineCuts
pub mod GuessLemmas
pub mod PortLemmas
pub mod FittingLaws
pub mod EndPlaces
