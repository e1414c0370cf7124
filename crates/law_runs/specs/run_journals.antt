pub mod Tying
pub mod InPlace
pub mod Outside
pub mod Reaching
