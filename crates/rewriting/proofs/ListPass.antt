-- The index lists: gathered, sorted, checked, searched.
pub mod GatherLaws
pub mod IndexTurns
pub mod EntryIndices
pub mod Inserting
pub mod Listings
pub mod ListAnswers
pub mod Shuffling
pub mod Sorted
pub mod SortedLists
pub mod Held
pub mod Holdings
pub mod Declaring
pub mod Ranks
pub mod Tables
