pub mod Laws
pub mod RecordedRunLaws
pub mod RecordedOriginalLaws
pub mod RecordLaws
pub mod ConstantLaws
