pub mod Dropped
pub mod Runs
pub mod Replayed
pub mod ShownRuns
