pub mod ReplayTexts
