pub mod Naming
pub mod States
pub mod NodeKinds
pub mod Compiling
