pub mod Puts
pub mod Cuts
pub mod Calls
pub mod Turns
