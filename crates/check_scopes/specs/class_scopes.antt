pub mod Views
pub mod Scopes
pub mod Fields
pub mod Walks
pub mod Signals
pub mod ByKinds
pub mod Making
pub mod Tables
