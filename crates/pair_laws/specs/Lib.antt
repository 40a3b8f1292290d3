pub mod Laws
pub mod LinkedLaws
pub mod SizeLaws
