pub mod ServiceNames
pub mod Faults
pub mod Numbering
pub mod Answers
