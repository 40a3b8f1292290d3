pub mod Bitwise
pub mod OpcodeTable
pub mod Rotations
pub mod ValuesFit
pub mod Zeros
mod Vectors
mod OpcodeVectors
