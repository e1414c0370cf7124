pub mod Few
pub mod Sound
