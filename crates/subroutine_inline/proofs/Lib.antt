pub mod Calling
pub mod Counting
pub mod Giving
pub mod Members
pub mod Naming
pub mod Operating
pub mod Typing
pub mod Walking
