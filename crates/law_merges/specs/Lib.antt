pub mod Merges
pub mod Runs
pub mod Cuts
