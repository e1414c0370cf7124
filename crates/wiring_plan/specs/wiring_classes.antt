pub mod Labels
pub mod States
pub mod Parts
pub mod ByKinds
pub mod Classes
pub mod Walked
