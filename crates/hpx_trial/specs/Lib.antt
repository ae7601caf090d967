pub mod Data
pub mod Still
pub mod Trial
pub mod TrialLaws
