pub mod UnderWay
pub mod Written
pub mod Table
pub mod ByKind
pub mod Points
