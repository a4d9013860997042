pub mod KeptPass
pub mod ListPass
pub mod MapPass
pub mod WritePass
pub mod Whole
