pub mod Gaps
pub mod Rules
pub mod Scan
pub mod Seen
