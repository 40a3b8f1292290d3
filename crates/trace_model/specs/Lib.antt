pub mod Sink
pub mod Effects
pub mod Weight
pub mod Balance
pub mod Fitting
