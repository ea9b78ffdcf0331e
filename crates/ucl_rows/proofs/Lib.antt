pub mod Common
pub mod Texts
pub mod NightParts
pub mod LinesSaid
pub mod LiveShown
