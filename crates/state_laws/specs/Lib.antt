pub mod Opens
pub mod Valid
pub mod Code
pub mod Sizes
