pub mod Taken
pub mod Once
