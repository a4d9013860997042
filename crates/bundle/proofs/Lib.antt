pub mod Frames
pub mod Parts
