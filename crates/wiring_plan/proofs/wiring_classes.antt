pub mod Ascii
pub mod KindLaws
pub mod Named
