pub mod Room
pub mod Home
pub mod Turns
