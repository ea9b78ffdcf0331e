pub mod Common
pub mod RunFacts
pub mod EnteredRows
pub mod Merges
pub mod NightLength
pub mod NightOutput
