pub mod Written
pub mod Charts
pub mod Making
pub mod Reads
pub mod Laws
