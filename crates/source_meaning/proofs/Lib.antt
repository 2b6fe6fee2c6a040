pub mod Longer
pub mod Loops
pub mod LongerRuns
