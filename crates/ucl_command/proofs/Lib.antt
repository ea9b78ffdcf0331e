pub mod Letters
pub mod Parses
