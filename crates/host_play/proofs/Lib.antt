mod Errors
mod Stacks
mod Outside
mod Arrivals
mod Returns
mod Counts
mod AnswerStarts
mod Turns
mod NextActions
mod ActionSteps
mod Ends
pub mod Joins
mod NextSteps
mod PrintedRuns
mod HostParts
mod ModuleParts
mod RunStarts
mod Calls
pub mod HookCalls
mod ImportStores
mod OtherAnswers
mod HookedParts
mod HookAnswers
pub mod HookRuns
mod HooksOn
pub mod HookShapes
mod HookArguments
mod HookWaits
mod HookReturns
