pub mod ExactPorts
pub mod ExactReferences
pub mod ExactMappings
pub mod ExactSubsystems
pub mod ClosedTurns
