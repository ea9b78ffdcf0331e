pub mod Boards
pub mod WordBits
pub mod Common
pub mod NullOrOwned
