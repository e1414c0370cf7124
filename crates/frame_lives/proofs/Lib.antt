pub mod Rows
pub mod Making
pub mod EndSteps
pub mod Reached
pub mod Gone
pub mod Items
pub mod Paging
