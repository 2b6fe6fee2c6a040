pub mod Scope
pub mod Arguments
pub mod Environment
pub mod Kept
pub mod Words
pub mod Answering
pub mod Rows
pub mod Seen
