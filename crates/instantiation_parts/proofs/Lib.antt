pub mod Imported
pub mod Segments
