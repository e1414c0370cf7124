pub mod Doings
pub mod command_sends
pub mod deferred_messages
