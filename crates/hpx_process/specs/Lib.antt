pub mod Memberships
pub mod Deeds
pub mod Asked
pub mod Slips
pub mod Parts
pub mod Members
pub mod Joined
