pub mod PlayableCuts
pub mod Rests
pub mod States
