pub mod Common
pub mod Mends
pub mod LeftOuts
