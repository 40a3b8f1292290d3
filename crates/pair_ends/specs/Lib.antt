pub mod Spaces
pub mod Jumps
pub mod Ends
pub mod Numbers
pub mod Types
pub mod Faults
