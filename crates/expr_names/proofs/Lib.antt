pub mod Same
pub mod Programs
