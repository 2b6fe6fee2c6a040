pub mod Whole
pub mod WordTy
