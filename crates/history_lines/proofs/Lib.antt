pub mod Digits
pub mod Growths
pub mod Numbers
pub mod Pairs
pub mod Values
pub mod Texts
