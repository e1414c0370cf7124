pub mod Reader
pub mod Contents
pub mod Cursor
pub mod Single
pub mod action_tokens
pub mod token_names
