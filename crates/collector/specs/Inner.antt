-- What only contracts inside this crate, and proofs, need.
pub mod Tiers
