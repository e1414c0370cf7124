pub mod Words
pub mod Marks
pub mod Enclosed
pub mod Front
pub mod Cutting
pub mod Cut
