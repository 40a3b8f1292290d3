mod Widths
pub mod Blocks
pub mod Groups
mod Marks
