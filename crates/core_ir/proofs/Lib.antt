pub mod Bodies
pub mod Exprs
pub mod Levels
pub mod LevelTable
pub mod Counting
pub mod Stays
pub mod ValueKinds
pub mod Worked
