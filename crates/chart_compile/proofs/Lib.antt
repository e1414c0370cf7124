pub mod Lowering
pub mod Making
pub mod Going
