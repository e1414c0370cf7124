pub mod FaultLemmas
pub mod FileLemmas
pub mod MemShelfLemmas
pub mod ShelfLemmas
pub mod SinkLemmas
