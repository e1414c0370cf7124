pub mod WordNumbers
pub mod Singles
pub mod Cuts
