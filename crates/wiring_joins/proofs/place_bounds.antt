pub mod Rows
pub mod Free
pub mod Grown
pub mod Slots
pub mod Totals
