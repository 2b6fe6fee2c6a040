pub mod Congruence
pub mod Reduction
pub mod Bits
