pub mod Halves
pub mod Held
pub mod Ranges
pub mod Reduced
pub mod Tested
