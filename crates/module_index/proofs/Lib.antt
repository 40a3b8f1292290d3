mod Alignment
pub mod Counts
mod IndexLemmas
pub mod MarkLemmas
mod RunLemmas
mod TableLemmas
