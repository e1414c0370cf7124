pub mod Defers
