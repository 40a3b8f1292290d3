pub mod RunsSoFar
pub mod Results
