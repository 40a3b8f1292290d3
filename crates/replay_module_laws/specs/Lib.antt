pub mod Standing
pub mod Laws
pub mod Written
pub mod Plans
pub mod Stores
pub mod Codes
pub mod CodeLaws
pub mod PlanLaws
