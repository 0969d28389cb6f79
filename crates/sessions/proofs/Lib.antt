mod Beside
mod Number
mod Others
mod Prelude
mod Reaching
mod Steps
mod Taken
