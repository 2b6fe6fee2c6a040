pub mod Printing
pub mod Showing
pub mod Shown
