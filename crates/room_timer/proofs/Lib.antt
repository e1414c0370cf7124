pub mod Lists
pub mod Order
pub mod Placed
pub mod Places
pub mod Computing
pub mod Later
pub mod Fits
pub mod Once
