pub mod PathLaws
pub mod Hashing
pub mod SingleLemmas
