-- The new unit, written part by part.
pub mod AttributeEmits
pub mod Emissions
pub mod EntryEmits
pub mod Expressions
pub mod FormKinds
pub mod HeaderEmits
pub mod ItemEmits
pub mod Plans
pub mod Putting
pub mod Splices
pub mod UnitWritten
pub mod ValueEmits
pub mod ValueForms
pub mod ValueParts
pub mod Yielded
