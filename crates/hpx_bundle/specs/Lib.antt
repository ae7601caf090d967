pub mod Bundles
pub mod Unbundling
pub mod Roads
