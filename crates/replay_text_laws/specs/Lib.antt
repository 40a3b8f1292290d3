pub mod Accepted
pub mod Texts
pub mod PrintLaws
pub mod Histories
