pub mod Divisors
pub mod Integers
pub mod LowestTerms
pub mod Lowest
