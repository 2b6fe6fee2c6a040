pub mod Answers
pub mod Bits
pub mod Bounds
pub mod Placing
pub mod Ranges
pub mod Counting
pub mod Turns
