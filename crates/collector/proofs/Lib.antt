mod Runs
mod Counting
pub mod LargerTables
mod Tiers
