pub mod Checks
pub mod Columns
pub mod Names
