mod FittingLemmas
pub mod SinkLemmas
