pub mod Outcomes
pub mod Wire
pub mod Records
pub mod Lists
pub mod Answers
pub mod Trips
pub mod Wrong
