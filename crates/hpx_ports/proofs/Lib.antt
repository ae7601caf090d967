pub mod FaultsLemmas
pub mod ToldLemmas
pub mod BytesLemmas
pub mod FramesLemmas
pub mod WordsLemmas
