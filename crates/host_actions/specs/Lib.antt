pub mod Ready
pub mod Does
