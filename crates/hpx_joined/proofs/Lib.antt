pub mod Fed
pub mod Computed
pub mod Asides
pub mod Spoken
