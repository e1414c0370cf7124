pub mod OutputLemmas
pub mod PartLemmas
pub mod Going
pub mod Digits
pub mod Lengths
