pub mod Content
pub mod Reading
pub mod Left
pub mod Writing
pub mod Claims
