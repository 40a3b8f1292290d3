pub mod Inside
pub mod Items
pub mod Stretches
pub mod Steps
pub mod Laws
