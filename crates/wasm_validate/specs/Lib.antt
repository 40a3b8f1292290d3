pub mod Flat
pub mod Stacks
pub mod Changes
pub mod Scopes
pub mod Names
