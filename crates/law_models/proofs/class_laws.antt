mod Scopes
mod Named
pub mod Codes
pub mod Charts
pub mod Plans
mod Classes
mod Asking
pub mod Models
mod Lookup
mod Paths
pub mod Labels
