pub mod Texts
pub mod Each
pub mod References
pub mod Trees
pub mod Forms
