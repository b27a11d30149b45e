pub mod Starts
pub mod Claims
