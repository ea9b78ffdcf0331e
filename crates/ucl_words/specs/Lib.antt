pub mod WordViews
pub mod WordCalls
pub mod CollectSteps
pub mod TableInvariants
pub mod LaterState
pub mod Theorems
pub mod WordRecords
