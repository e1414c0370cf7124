pub mod Rounds
pub mod Prompts
pub mod LineParts
pub mod OneByOne
