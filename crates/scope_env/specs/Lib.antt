pub mod Fault
pub mod Scopes
pub mod OpenScopes
