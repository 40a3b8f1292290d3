mod InstructionLemmas
mod LengthLemmas
mod ModuleLemmas
mod VectorLemmas
