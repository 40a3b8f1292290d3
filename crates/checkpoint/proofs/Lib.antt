pub mod Blocks
pub mod ElemRuns
pub mod GlobalValues
pub mod Parts
pub mod Zeros
pub mod FrozenRuns
pub mod FrozenStates
