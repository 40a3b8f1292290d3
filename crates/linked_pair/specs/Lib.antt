pub mod SideNumbers
pub mod GlobalConstants
pub mod Parts
pub mod LinkedPairs
