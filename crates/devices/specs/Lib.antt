pub mod Devices
pub mod Histories
pub mod Reading
pub mod Slices
pub mod Wires
