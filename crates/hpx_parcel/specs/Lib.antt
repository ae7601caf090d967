pub mod Types
pub mod Spelling
pub mod Parcels
pub mod Reading
pub mod Credits
pub mod Outlines
