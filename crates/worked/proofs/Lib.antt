pub mod Computed
pub mod Replayed
