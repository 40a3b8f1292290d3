pub mod TapeFiles
