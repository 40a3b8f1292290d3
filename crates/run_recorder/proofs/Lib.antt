pub mod Indices
pub mod Led
