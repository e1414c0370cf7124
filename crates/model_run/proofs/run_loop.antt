pub mod ListFacts
pub mod PlayLaw
pub mod QuietLaw
pub mod LastEnd
pub mod Skipping
pub mod StepsLeft
pub mod Beginning
