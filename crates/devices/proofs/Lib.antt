mod Slices
mod Taking
