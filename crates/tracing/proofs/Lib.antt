pub mod Followed
pub mod Named
pub mod Always
pub mod Claimed
