pub mod Found
pub mod Inside
pub mod Operands
pub mod Served
