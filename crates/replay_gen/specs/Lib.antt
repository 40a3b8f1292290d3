pub mod Pieces
pub mod Bounds
