pub mod Lines
pub mod Launches
