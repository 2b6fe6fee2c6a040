pub mod Bounds
pub mod Claims
pub mod Fitting
pub mod Laws
pub mod Lowering
pub mod Stretch
pub mod Work
