pub mod Sorts
pub mod Kept
pub mod Found
pub mod Stands
pub mod First
