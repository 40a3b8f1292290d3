pub mod Positions
pub mod Instances
pub mod Arguments
