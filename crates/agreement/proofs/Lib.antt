pub mod Causes
pub mod Following
pub mod SameVerdict
