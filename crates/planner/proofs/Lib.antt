pub mod Passing
pub mod Packing
pub mod Reading
pub mod Answers
pub mod Cases
pub mod Wrong
