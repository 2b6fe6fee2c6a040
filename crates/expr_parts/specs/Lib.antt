pub mod Cells
pub mod Variables
pub mod TreeParts
pub mod TreeLaw
