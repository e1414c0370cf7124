pub mod Lists
pub mod WalkLaws
pub mod ClassLaws
pub mod SignalLaws
pub mod TableLaws
pub mod PortLaws
pub mod ScopeLaws
