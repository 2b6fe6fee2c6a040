pub mod Seen
pub mod Parsed
pub mod Refusing
