pub mod Answers
pub mod Picked
pub mod Exactly
pub mod Checks
pub mod Scans
pub mod Others
