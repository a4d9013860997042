-- The same attribute by attribute, as the public reader gives them.
pub mod ValuesAgain
pub mod AttributesAgain
pub mod AttributeLaws
pub mod ByForm
