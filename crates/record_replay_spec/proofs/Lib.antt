pub mod Kept
pub mod Alike
pub mod Tested
pub mod OneList
pub mod OneTape
pub mod Operands
pub mod AlikeStores
pub mod Memories
pub mod Tables
pub mod MemorySteps
pub mod TableSteps
pub mod GlobalSteps
pub mod Steps
pub mod KindsOfStores
pub mod OwnAnswers
pub mod Numbers
pub mod SameExecutions
pub mod ShownMemorySteps
pub mod ShownTableSteps
pub mod ShownSteps
pub mod Indices
pub mod Bodies
mod Modules
pub mod LongestRuns
mod LogTapes
pub mod HookTables
mod TestedTapes
pub mod Awaited
