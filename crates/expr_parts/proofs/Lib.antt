pub mod Constancy
pub mod Inexact
pub mod Reading
pub mod Facts
pub mod Trees
pub mod Dividing
pub mod Selecting
