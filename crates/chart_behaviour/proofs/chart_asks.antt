pub mod Keeping
pub mod Programs
pub mod Chains
