pub mod Count
pub mod Contents
pub mod NameCounts
pub mod Stores
pub mod Growth
