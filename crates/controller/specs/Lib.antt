pub mod View
pub mod Controllers
pub mod Calls
pub mod States
pub mod quiet_counts
