pub mod class_containment
pub mod face_chains
pub mod face_matchings
