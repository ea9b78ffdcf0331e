pub mod Record
pub mod Rules
pub mod Counts
pub mod Layout
pub mod Migration
pub mod Theorems
pub mod Names
pub mod Changes
