pub mod ReadBytes
mod WrittenBytes
mod Growths
mod GrowingRuns
mod Counts
mod Whole
pub mod Recorded
pub mod Originals
mod OneRecord
mod TypedCalls
mod FittingObservations
mod FittingEvents
mod FittingLogs
mod ConstantRuns
mod ConstantEffects
mod ConstantSteps
