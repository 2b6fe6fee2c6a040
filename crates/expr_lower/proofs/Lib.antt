pub mod Coding
pub mod Collecting
pub mod Counting
pub mod Emits
pub mod Few
pub mod Registers
