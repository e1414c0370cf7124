pub mod Texts
pub mod Fields
pub mod Forms
pub mod Views
