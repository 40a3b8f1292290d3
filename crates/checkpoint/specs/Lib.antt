pub mod Cuts
pub mod ElemRuns
pub mod FrozenStates
pub mod StateParts
pub mod Freezers
pub mod FrozenRuns
pub mod FrozenLaws
