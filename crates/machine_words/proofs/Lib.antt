pub mod Words
pub mod Ring
pub mod Exact
pub mod Reducing
pub mod Bits
pub mod Comparing
