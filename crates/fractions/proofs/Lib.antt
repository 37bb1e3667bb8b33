pub mod Euclid
pub mod LowestTerms
