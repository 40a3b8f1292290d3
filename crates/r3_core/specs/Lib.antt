pub mod Jobs
pub mod Words
pub mod Meanings
pub mod Replayed
pub mod Causes
