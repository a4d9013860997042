-- Which number a call refuses with, and when.
pub mod ReaderRefusals
pub mod WalkRefusals
pub mod ScanRefusals
pub mod MarkingRefusals
pub mod CollectRefusals
pub mod ValueRefusals
pub mod NewValues
pub mod Accepting
pub mod CallRefusals
pub mod ByteOrders
pub mod Formats
