pub mod Data
pub mod Claims
pub mod Lines
pub mod Patient
