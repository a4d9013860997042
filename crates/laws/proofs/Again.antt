-- A rewritten unit, read again.
pub mod Accepted
pub mod Sizes
pub mod Ranks
pub mod Again
pub mod Rereading
pub mod ReadsAgain
pub mod Depths
pub mod Fitting
pub mod UnitAgain
pub mod Counting
pub mod Maps
pub mod IndexMembers
pub mod CollectLaws
pub mod AncestorsAgain
