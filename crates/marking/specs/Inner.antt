-- What only contracts inside this crate, and proofs, need.
pub mod Columns
pub mod Lent
pub mod Named
pub mod Passes
pub mod ReferenceTable
pub mod Resolution
pub mod Survivors
