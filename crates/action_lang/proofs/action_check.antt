pub mod Built
pub mod Known
