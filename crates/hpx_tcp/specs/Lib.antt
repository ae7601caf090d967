pub mod Bodies
pub mod Hellos
pub mod Connected
