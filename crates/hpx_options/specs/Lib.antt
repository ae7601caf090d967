pub mod Table
pub mod Values
pub mod Words
pub mod Meanings
pub mod Texts
