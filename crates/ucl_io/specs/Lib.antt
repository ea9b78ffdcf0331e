pub mod Stream
pub mod Devices
pub mod Lines
pub mod Output
pub mod Calls
pub mod Turns
pub mod Serving
