pub mod Braces
pub mod Steps
pub mod Behind
pub mod Tops
