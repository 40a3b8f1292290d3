pub mod FlatLemmas
pub mod StackLemmas
pub mod StepLemmas
pub mod NameLemmas
pub mod FuncLemmas
