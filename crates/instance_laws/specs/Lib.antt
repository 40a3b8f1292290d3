pub mod Typings
pub mod SizeLaws
