pub mod Width
pub mod Levels
pub mod Bounds
pub mod Present
pub mod Exact
pub mod Fields
pub mod Halves
pub mod Least
