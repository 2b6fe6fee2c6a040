pub mod Tree
pub mod Level
pub mod Whole
pub mod View
pub mod Shallow
pub mod Size
pub mod Walks
