pub mod Rival
pub mod Optimum
pub mod Whole
