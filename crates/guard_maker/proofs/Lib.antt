mod Steps
mod Called
mod Assembly
mod OnlyExports
