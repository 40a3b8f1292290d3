pub mod WrittenBytes
pub mod Flat
pub mod Keeping
pub mod Counting
pub mod Datas
pub mod Takings
pub mod Frozen
