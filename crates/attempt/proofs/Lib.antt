pub mod Most
pub mod Screens
pub mod Ruled
pub mod Sums
pub mod Speeds
pub mod Windows
pub mod Runs
