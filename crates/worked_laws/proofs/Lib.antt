pub mod Left
pub mod Fit
pub mod Runs
pub mod EachRun
pub mod CoreModules
pub mod Dropped
pub mod Replayed
mod ShownRuns
