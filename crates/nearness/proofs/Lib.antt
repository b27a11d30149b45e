pub mod Closeness
pub mod Round
pub mod Ops
pub mod Carried
pub mod Bound
