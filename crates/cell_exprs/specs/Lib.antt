pub mod CellValues
pub mod Parts
pub mod Laws
