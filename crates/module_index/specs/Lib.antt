pub mod Marks
pub mod IndexSpaces
pub mod Runs
pub mod Tables
pub mod Contexts
