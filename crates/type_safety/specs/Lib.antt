pub mod Values
pub mod Stores
pub mod Heights
pub mod Frames
pub mod Results
pub mod Configurations
pub mod Supplies
pub mod Laws
