pub mod Addressed
pub mod Ends
pub mod Laws
pub mod Left
pub mod Rows
pub mod Rule
pub mod Sides
pub mod Wires
