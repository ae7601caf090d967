pub mod Clap
pub mod Numbers
pub mod Children
pub mod Texts
