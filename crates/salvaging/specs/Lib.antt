pub mod Salvage
pub mod Answers
pub mod Saving
pub mod Claims
