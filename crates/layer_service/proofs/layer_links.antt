pub mod ByPlace
pub mod ByPort
pub mod Duties
pub mod Withdrawn
