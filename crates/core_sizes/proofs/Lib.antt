pub mod Bodies
pub mod Costs
pub mod Parts
pub mod GateCalls
pub mod Statements
