pub mod ModuleFiles
pub mod Inputs
