pub mod WorkLaw
pub mod Counting
