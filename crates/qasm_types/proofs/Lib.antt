pub mod ByKind
pub mod Casting
pub mod Choices
pub mod Giving
pub mod Meeting
pub mod Operating
pub mod Planning
pub mod Reduced
