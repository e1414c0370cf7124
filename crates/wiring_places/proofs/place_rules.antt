pub mod RelayExample
pub mod SmallExamples
