pub mod Rests
pub mod KnownBefore
pub mod Cuts
pub mod KnownStates
pub mod StateSegments
pub mod StateModules
pub mod AtCalls
pub mod TopEnters
