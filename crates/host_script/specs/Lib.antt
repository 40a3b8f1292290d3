pub mod Supply
pub mod Fits
