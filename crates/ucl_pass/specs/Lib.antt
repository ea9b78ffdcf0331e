pub mod CellInvariants
pub mod CellSteps
pub mod CellCalls
pub mod CellRecords
