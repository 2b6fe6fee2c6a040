pub mod Fraction
pub mod Lowest
