pub mod Members
pub mod Ordering
pub mod Distinct
pub mod Counting
pub mod KeyLists
pub mod Known
pub mod Reaching
pub mod FewStates
