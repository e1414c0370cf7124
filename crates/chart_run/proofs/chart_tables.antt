pub mod Trying
pub mod MindLemmas
pub mod Walking
pub mod Chains
