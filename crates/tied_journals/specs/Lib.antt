pub mod Tied
pub mod Text
pub mod Untied
pub mod PostTables
pub mod Writing
