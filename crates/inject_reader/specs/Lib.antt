pub mod LineFaults
pub mod Meaning
pub mod Answer
pub mod Gives
pub mod Guesses
pub mod Fitting
pub mod inject_lines
