pub mod Instances
pub mod Renamed
pub mod ForeignRuns
pub mod Widened
pub mod Laws
pub mod WidenedLaws
pub mod Outcomes
pub mod DeclSizes
