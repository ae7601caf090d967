pub mod Records
pub mod Queues
pub mod Places
pub mod Codes
pub mod Lines
pub mod Trees
pub mod Tables
pub mod Registries
