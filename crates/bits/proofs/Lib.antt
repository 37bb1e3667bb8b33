pub mod Digits
pub mod Fields
pub mod Pieces
pub mod Splices
pub mod Tables
pub mod Rows
