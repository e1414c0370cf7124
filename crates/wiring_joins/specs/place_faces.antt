pub mod SlotsOf
pub mod Paired
