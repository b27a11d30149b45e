pub mod Seconds
pub mod Capped
pub mod Bounded
pub mod Plainly
