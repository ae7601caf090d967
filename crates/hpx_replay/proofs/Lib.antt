pub mod Leaves
pub mod Replays
pub mod RowLemmas
