pub mod Lines
pub mod Texts
mod Small
mod Words
mod Bindings
mod Standings
mod Calm
mod Stills
mod Sound
mod Queries
mod Steps
