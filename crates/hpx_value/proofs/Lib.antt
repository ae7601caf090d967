-- Lemmas on the halves of ids.
pub mod Halves
-- What follows where each continuation is used once.
pub mod Uses
-- An outcome that keeps the state and answers keeps the laws.
pub mod Kept
-- An action without its rider, and answers with one.
pub mod Riders
-- The order of an outcome's mentions, in one example.
mod Example
