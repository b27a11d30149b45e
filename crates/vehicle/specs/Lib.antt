pub mod Settings
pub mod Limits
pub mod Loads
pub mod Checked
pub mod Driving
pub mod Claims
