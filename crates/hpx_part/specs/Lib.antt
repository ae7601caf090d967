pub mod Data
pub mod Keyed
pub mod View
pub mod Shows
pub mod Loads
pub mod Parts
