pub mod Causes
pub mod Helds
pub mod Crossing
