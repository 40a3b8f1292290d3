pub mod Chosen
pub mod FirstSizes
pub mod Places
pub mod Supplied
