pub mod MailState
pub mod Within
pub mod Steps
pub mod Queues
pub mod Laws
pub mod controller_moves
