pub mod Mended
pub mod MendNames
pub mod MendTheorems
pub mod Standing
