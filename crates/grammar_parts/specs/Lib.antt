pub mod Part
pub mod Reading
pub mod Kinds
pub mod Exact
pub mod Law
