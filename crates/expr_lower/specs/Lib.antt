pub mod Coded
pub mod Emit
pub mod Lowered
pub mod Order
pub mod Reached
