pub mod Written
pub mod Stepped
pub mod Waits
pub mod Turning
pub mod Turned
