-- What only contracts inside this crate, and proofs, need.
pub mod Bounds
pub mod Emission
pub mod Ends
pub mod Gathering
pub mod IndexLists
pub mod Indices
pub mod Leaving
pub mod MapFilled
pub mod Measures
pub mod NextKept
pub mod Parents
pub mod Written
pub mod Plans
