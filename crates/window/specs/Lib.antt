pub mod Measuring
pub mod Judging
pub mod Engine
pub mod Bounds
pub mod Plain
pub mod Claims
