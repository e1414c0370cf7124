pub mod join_laws
pub mod layer_joins
pub mod place_faces
pub mod place_joins
pub mod slot_references
pub mod tellings
pub mod joined_places
