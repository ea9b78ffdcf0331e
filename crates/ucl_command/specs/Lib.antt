pub mod Groups
pub mod Arguments
pub mod Commands
