mod Acting
mod Checking
mod Resting
mod Sockets
mod Turns
