-- One unit by several address tables.
pub mod BySeveralTables
pub mod FromLookups
pub mod Failures
pub mod FirstFailure
pub mod AllLive
pub mod SameRewriting
pub mod EmptyTable
pub mod FailureLaws
pub mod NotRead
pub mod LiveVerdicts
pub mod NoneLost
