pub mod Pairs
pub mod Chains
pub mod Numbers
pub mod PairRuns
pub mod Linked
pub mod SideHistories
pub mod Faults
