pub mod face_matchings
