pub mod Turns
pub mod Agreed
