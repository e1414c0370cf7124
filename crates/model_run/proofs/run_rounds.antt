pub mod LaneLists
pub mod PollOrder
pub mod RoundLaw
pub mod PromptLists
pub mod LinesLaw
pub mod Choose
pub mod PolledLists
pub mod OneByOne
