pub mod join_laws
pub mod place_bounds
pub mod place_faces
pub mod slot_references
