pub mod Counted
pub mod Put
pub mod Written
pub mod EventLaws
pub mod Trips
pub mod Prefix
pub mod Longest
pub mod Claimed
