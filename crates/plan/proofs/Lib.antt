pub mod Judging
pub mod Framing
pub mod Trips
pub mod Answers
pub mod Wrong
