pub mod Feed
pub mod Show
pub mod Nights
pub mod Program
