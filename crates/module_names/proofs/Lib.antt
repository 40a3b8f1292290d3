pub mod Lists
pub mod Firsts
pub mod NameIndex
pub mod ImportLoops
pub mod Spaces
