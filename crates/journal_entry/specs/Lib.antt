pub mod Kinds
pub mod Spelling
pub mod Reading
pub mod Events
pub mod Claims
