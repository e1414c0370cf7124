pub mod Plain
pub mod Escapes
pub mod Loop
pub mod Readers
pub mod Whole
pub mod Singles
pub mod Exact
pub mod token_names
