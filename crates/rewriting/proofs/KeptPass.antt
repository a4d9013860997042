-- The items of a unit, and the pass through those that are kept.
pub mod Items
pub mod ItemDepths
pub mod KeptItems
pub mod KeptPasses
pub mod KeptSteps
pub mod EndsFilled
pub mod ParentsOf
pub mod ReadableItems
pub mod DeepReads
pub mod FormTokens
pub mod EntryReads
pub mod UnitKept
