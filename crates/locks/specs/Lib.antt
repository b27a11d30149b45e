pub mod Events
pub mod Accepted
pub mod Locks
pub mod State
pub mod Plain
pub mod Claims
