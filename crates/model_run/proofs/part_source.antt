pub mod CallsLaw
