pub mod Common
pub mod InvariantIsKept
pub mod CallsBySteps
