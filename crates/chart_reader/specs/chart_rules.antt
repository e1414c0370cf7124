pub mod Rules
pub mod Index
pub mod Views
pub mod IndexView
