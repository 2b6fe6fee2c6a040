pub mod Numbers
pub mod Alike
