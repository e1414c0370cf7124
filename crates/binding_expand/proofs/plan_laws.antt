pub mod Numbers
pub mod Finite
pub mod Services
pub mod Plans
