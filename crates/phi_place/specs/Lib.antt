pub mod Assigned
pub mod Needs
pub mod Phis
pub mod State
