pub mod Circles
