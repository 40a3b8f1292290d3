pub mod Linked
pub mod Unlinked
pub mod Runnable
pub mod Runs
