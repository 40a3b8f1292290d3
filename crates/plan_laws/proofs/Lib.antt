mod OpenCalls
mod Shares
mod Segments
mod BalancedTapes
mod OwnedPlans
mod OwnedSteps
