pub mod Seen
pub mod Reduced
