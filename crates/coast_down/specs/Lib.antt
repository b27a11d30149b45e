pub mod Passing
pub mod Annex
pub mod Claims
