pub mod RegisterBits
pub mod Reducing
pub mod Casting
pub mod Turning
