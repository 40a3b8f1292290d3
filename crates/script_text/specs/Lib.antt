pub mod Walk
pub mod Values
pub mod Actions
pub mod Places
pub mod Texts
pub mod ImportTexts
pub mod CommonTypes
pub mod FittingScripts
