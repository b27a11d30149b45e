pub mod Rounding
pub mod Dilution
pub mod Humidity
pub mod Annex
pub mod Claims
