pub mod Parts
pub mod Ends
pub mod Bindings
pub mod Layers
pub mod Rules
pub mod Walks
