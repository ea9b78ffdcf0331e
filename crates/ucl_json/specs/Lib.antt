pub mod Values
pub mod Mended
pub mod Lines
pub mod BoardLines
