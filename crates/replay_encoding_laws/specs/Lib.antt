pub mod Premises
pub mod Laws
pub mod FragmentLaws
pub mod ConstantLaws
pub mod ShortLists
