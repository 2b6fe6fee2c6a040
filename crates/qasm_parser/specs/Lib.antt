pub mod State
pub mod Inside
pub mod Shows
pub mod Kinds
pub mod Answer
