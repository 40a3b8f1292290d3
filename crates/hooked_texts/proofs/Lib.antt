mod Steps
mod Names
mod Actions
mod Answers
mod Walks
mod Scripts
mod Accepted
