pub mod Imported
