pub mod Bags
pub mod BarePlant
pub mod Keys
pub mod LanesLaw
pub mod QuietLaw
