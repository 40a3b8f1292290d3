pub mod Laws
pub mod Calls
pub mod Replays
pub mod KnownStores
pub mod FittingCuts
pub mod TopEnters
