pub mod TokenKinds
pub mod Grammar
pub mod Reader
pub mod Seen
pub mod Answer
pub mod Rows
