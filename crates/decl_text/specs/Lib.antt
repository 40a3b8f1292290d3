pub mod Walk
pub mod Texts
pub mod Names
pub mod Laws
pub mod DataSizes
