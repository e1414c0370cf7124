pub mod Nesting
pub mod NestedGraphs
pub mod StateCounts
pub mod Lowest
pub mod scope_laws
