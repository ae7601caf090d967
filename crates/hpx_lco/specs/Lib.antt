pub mod Answered
pub mod Flows
pub mod Every
