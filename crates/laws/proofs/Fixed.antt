-- Variables at a fixed address.
pub mod FixedOperations
pub mod FixedLocations
pub mod FixedRoots
pub mod FixedSurvivors
