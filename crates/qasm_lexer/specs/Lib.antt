pub mod Characters
pub mod Tables
pub mod Spelling
pub mod Tokens
pub mod Scan
pub mod Sizes
pub mod Pieces
