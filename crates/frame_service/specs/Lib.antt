pub mod State
pub mod Forms
pub mod Done
pub mod Places
pub mod frame_endings
pub mod frame_start
pub mod frame_imports
