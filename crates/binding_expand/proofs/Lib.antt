pub mod FewPorts
pub mod Kept
pub mod Limits
pub mod Whole
pub mod pair_laws
pub mod plan_laws
