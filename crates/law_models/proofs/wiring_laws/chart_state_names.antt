pub mod Reading
pub mod Models
