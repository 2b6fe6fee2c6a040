pub mod Known
pub mod Making
pub mod ItemParts
pub mod ModuleParts
pub mod Spelled
