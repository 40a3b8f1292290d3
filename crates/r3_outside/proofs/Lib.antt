pub mod ContentsLemmas
pub mod TableLemmas
pub mod GrowthLemmas
pub mod CountLemmas
