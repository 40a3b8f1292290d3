pub mod Encoding
pub mod Place
pub mod ReadResults
pub mod Signed
pub mod Unsigned
