pub mod LineLemmas
pub mod JournalGoing
