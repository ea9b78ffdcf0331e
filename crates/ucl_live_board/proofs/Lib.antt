pub mod Common
pub mod Lists
pub mod Halves
pub mod Alone
pub mod InvariantIsKept
pub mod StepFacts
pub mod CallsBySteps
pub mod LogFacts
