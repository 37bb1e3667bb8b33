mod Wrong
pub mod Earliest
pub mod Turning
pub mod Within
pub mod NeverLate
pub mod Entered
pub mod Settings
pub mod Lists
pub mod Costs
pub mod Choosing
pub mod Picking
pub mod Assigning
pub mod Filling
pub mod Making
pub mod Writing
pub mod Answering
pub mod PastTheCount
