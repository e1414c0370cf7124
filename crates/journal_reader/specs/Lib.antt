pub mod Answer
pub mod FullSink
pub mod journal_fits
pub mod journal_lines
pub mod journal_texts
