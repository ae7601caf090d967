pub mod Inputs
pub mod Still
pub mod Latches
pub mod Promises
pub mod Channels
pub mod Barriers
pub mod Flows
