pub mod FixedLaw
