pub mod Passages
pub mod Numerals
pub mod Ends
pub mod Names
pub mod Table
pub mod Items
pub mod Texts
pub mod Found
