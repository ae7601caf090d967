pub mod Load
pub mod Session
