pub mod PlaceLaws
pub mod GroupLaws
