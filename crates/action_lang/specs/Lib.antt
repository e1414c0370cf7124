pub mod action_check
