pub mod Ratio
pub mod Near
