pub mod Going
pub mod Doing
pub mod Polling
pub mod Making
pub mod Waits
pub mod Standing
pub mod Keeping
