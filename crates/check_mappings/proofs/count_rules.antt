pub mod Views
pub mod NumberLaws
