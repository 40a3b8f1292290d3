mod Relation
mod Shared
mod EffectStores
mod CallsLeft
mod Bounded
mod DispatchSteps
mod Sides
mod Settled
mod Sound
mod Codes
mod Counted
mod Groups
mod AnsweredCalls
mod Together
mod Parts
mod Reached
mod Fitting
mod Plays
mod Ends
mod HostSteps
mod ModuleSteps
mod Simulation
mod Whole
pub mod Along
pub mod One
pub mod Dispatches
pub mod Selections
mod Quiet
mod Singles
mod Bytes
pub mod Does
pub mod WrittenItems
mod StoredBytes
mod Runs
pub mod Effects
mod Lacking
mod Growth
mod TableGrowth
pub mod Items
mod Same
mod Each
mod All
mod PlayedCalls
