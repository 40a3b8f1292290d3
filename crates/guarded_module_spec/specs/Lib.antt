pub mod Words
pub mod Numbers
pub mod Fronts
pub mod Functions
pub mod GuardedModules
pub mod Forms
pub mod Runs
pub mod Differences
