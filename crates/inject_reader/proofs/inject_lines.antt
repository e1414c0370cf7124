pub mod FieldCuts
pub mod Loads
