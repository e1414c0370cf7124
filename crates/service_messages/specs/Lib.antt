pub mod Shown
pub mod frame_messages
pub mod slot_runs
pub mod Sites
