pub mod Limits
pub mod Outcome
pub mod Wire
pub mod Records
pub mod List
pub mod Forms
