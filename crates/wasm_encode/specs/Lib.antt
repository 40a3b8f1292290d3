pub mod Lengths
pub mod NotEmpty
pub mod Parts
pub mod Vectors
