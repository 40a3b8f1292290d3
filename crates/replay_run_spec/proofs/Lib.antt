mod Projections
pub mod Histories
pub mod Joined
mod Tested
mod Traps
pub mod CallCounts
