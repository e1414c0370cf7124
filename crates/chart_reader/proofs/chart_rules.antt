pub mod Law
pub mod Tables
pub mod NamesFound
pub mod Begin
pub mod Found
