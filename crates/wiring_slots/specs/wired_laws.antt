pub mod Sound
