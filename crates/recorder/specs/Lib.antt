pub mod Known
pub mod Bytes
pub mod Recordings
pub mod FrozenViews
pub mod Recorders
pub mod Laws
