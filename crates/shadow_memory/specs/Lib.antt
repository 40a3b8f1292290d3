pub mod Shadow
pub mod KnownBytes
pub mod Runs
pub mod Opening
pub mod Takings
