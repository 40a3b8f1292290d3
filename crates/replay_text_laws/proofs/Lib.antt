mod UnrefusedCode
mod Accepted
mod Texts
mod Histories
mod WorldTexts
