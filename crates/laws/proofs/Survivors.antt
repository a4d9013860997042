-- Who survives, marks and single markings.
pub mod Letters
pub mod Markings
pub mod GraphLaws
pub mod KeptMarks
pub mod UnitSurvivors
pub mod MarkLaws
pub mod UnitLaws
pub mod MarkingSteps
pub mod ClosedMarks
pub mod RowsAt
