pub mod Agreeing
pub mod Living
pub mod Open
pub mod Wirings
pub mod Agreed
