pub mod Build
pub mod Modules
pub mod Scripts
pub mod RunLines
pub mod Histories
