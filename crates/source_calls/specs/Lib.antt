pub mod Calls
pub mod Alike
pub mod Laws
pub mod CallRows
