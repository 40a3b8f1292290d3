mod Zips
mod Offsets
mod Merged
