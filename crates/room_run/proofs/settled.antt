pub mod Compiled
pub mod Fitting
pub mod Runs
pub mod Told
