-- A rewritten unit is the old tree less its dead entries.
pub mod Landing
pub mod Roles
pub mod HeaderBytes
pub mod AbsentLists
pub mod ThinnedItems
pub mod ThinnedLaw
pub mod LandsOnce
pub mod HostReads
