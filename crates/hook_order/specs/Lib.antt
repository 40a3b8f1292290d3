pub mod Args
pub mod Shapes
pub mod Frames
pub mod Orders
