pub mod Carries
pub mod Listed
pub mod Joins
