-- What only the proofs need.
pub mod Maps
pub mod Landing
pub mod Moved
pub mod Ancestors
