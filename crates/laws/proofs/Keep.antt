-- Keep lists.
pub mod ListRefusals
pub mod Treatments
pub mod FirstRefusals
pub mod SameRefusals
pub mod KeptThrough
pub mod TreatedAlike
