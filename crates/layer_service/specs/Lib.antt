pub mod layer_links
pub mod name_service
