pub mod Pendings
pub mod Mails
pub mod Waiting
pub mod Replaying
pub mod controller_moves
