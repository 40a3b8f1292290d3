pub mod TapeBuild
pub mod Modules
pub mod Observed
pub mod NeededTapes
pub mod Bounds
pub mod WrongTapes
