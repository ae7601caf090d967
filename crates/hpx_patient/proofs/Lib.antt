pub mod Awaited
pub mod Claims
pub mod Cuts
pub mod Hand
pub mod Lines
pub mod Patient
pub mod Prints
