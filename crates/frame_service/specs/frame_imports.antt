pub mod Numbered
pub mod Homes
pub mod frame_forms
pub mod frame_peers
pub mod import_places
pub mod Answered
