pub mod Value
pub mod Runs
pub mod Words
pub mod Closing
pub mod Front
pub mod Turns
pub mod Cut
