pub mod FormLemmas
pub mod StateLemmas
pub mod DutyLemmas
