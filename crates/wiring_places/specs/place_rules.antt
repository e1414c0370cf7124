pub mod Parts
pub mod Stretches
pub mod Layers
pub mod Counts
pub mod Pairs
pub mod Partners
