pub mod Posted
pub mod Looked
pub mod Prompt
pub mod Replayed
