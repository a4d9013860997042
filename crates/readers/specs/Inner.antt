-- What only contracts inside this crate, and proofs, need.
pub mod Abbreviations
pub mod Entries
pub mod EntryAttributes
pub mod Fields
pub mod References
pub mod Slots
pub mod Nesting
pub mod Forms
pub mod Steps
pub mod Values
