mod Standing
pub mod Outside
mod ValidOutside
pub mod Declarations
pub mod Originals
pub mod TypedOriginals
pub mod Serving
pub mod TypedEffects
pub mod TypedSegments
pub mod TypedDispatch
pub mod Generated
mod TypedGenerated
pub mod FittingPlans
pub mod Bodies
pub mod Functions
mod Openings
pub mod References
mod FittingFragments
mod PlanSegments
mod PlanCalls
