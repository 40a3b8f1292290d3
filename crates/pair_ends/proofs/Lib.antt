pub mod Chains
pub mod EndsThere
pub mod Counted
pub mod FirstFaults
