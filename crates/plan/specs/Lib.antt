pub mod Entries
pub mod Frame
pub mod Forms
