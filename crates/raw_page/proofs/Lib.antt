pub mod Steps
pub mod Row
