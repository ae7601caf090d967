pub mod Placed
pub mod Maps
pub mod Births
