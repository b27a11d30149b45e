pub mod Taken
pub mod FieldLaws
pub mod EntryLaws
pub mod Enough
