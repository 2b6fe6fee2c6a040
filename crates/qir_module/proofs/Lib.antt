pub mod Calls
pub mod FunctionNames
pub mod Numbers
pub mod Worked
mod WorkedBranch
mod WorkedGates
mod WorkedLoop
mod WorkedTexts
mod WorkedRules
