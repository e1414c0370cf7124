pub mod Orderly
pub mod Each
pub mod NameSends
pub mod FrameSends
