-- Which section of range lists is read.
pub mod OneRanges
