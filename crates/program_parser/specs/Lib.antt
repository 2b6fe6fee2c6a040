pub mod World
pub mod Shows
pub mod Parses
pub mod Begins
pub mod Nesting
pub mod Refusing
pub mod Parsed
