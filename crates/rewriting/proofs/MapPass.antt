-- The map: where each kept item comes to stand, and the search for siblings.
pub mod Ascending
pub mod Bounded
pub mod MapFills
pub mod Places
pub mod Exact
