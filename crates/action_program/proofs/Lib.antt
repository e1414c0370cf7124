pub mod Times
pub mod Carried
