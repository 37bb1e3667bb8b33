pub mod Setting
pub mod Entries
pub mod Costs
pub mod Right
pub mod Answer
pub mod Steps
