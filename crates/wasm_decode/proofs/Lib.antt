pub mod DecodeLemmas
pub mod PreambleLemmas
pub mod DraftLemmas
pub mod InstructionLemmas
pub mod Counts
pub mod SectionLemmas
pub mod ItemLemmas
pub mod Segments
pub mod RestLengths
pub mod NameLemmas
pub mod ModuleLemmas
pub mod FuncLemmas
pub mod OpcodeLemmas
mod SectionRows
