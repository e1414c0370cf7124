pub mod Consistent
