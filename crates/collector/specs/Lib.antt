pub mod Call
pub mod Inner
