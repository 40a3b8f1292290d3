pub mod Forms
pub mod Sides
pub mod Laws
