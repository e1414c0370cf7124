pub mod Replication
pub mod AnyPlaces
pub mod Subsystems
pub mod Imported
pub mod Threads
