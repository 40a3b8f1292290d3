mod LayoutBytes
mod Sections
