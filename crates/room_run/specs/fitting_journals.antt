pub mod Actors
pub mod Places
pub mod Fitting
pub mod Signals
