pub mod Cells
pub mod Marking
pub mod Telling
