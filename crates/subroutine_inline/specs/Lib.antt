pub mod Called
pub mod Bound
pub mod Serves
pub mod Seen
pub mod Rows
