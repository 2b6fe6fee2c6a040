pub mod Answered
pub mod Headings
pub mod Inside
pub mod Parts
pub mod Seen
pub mod Whole
