mod Types
mod Paths
mod Trails
mod Mapped
pub mod Kept
mod Programs
pub mod Charts
mod Plans
pub mod Weaker
pub mod Models
pub mod Wired
pub mod Runs
mod Chains
mod Located
pub mod Owners
pub mod Joins
pub mod Ports
pub mod Mutual
pub mod Registers
pub mod Settled
pub mod Controllers
