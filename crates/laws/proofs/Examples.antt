-- P1 to P10 of document 01, computed.
pub mod FiveEntries
pub mod Calls
