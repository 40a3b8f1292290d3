pub mod Offsets
pub mod Parts
