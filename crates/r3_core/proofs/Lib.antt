pub mod CauseLemmas
pub mod RefusalLemmas
pub mod ResultLemmas
pub mod StatusLemmas
pub mod WordLemmas
pub mod JobLemmas
pub mod Replayed
