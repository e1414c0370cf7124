pub mod OnePort
pub mod Pair
pub mod TwoPairs
pub mod OptionalActors
pub mod ImportPlaces
pub mod Providers
pub mod MadeAtFirst
