pub mod Exact
pub mod Sums
pub mod Premise
pub mod Decimals
pub mod Answers
pub mod Whole
pub mod Claims
pub mod Printing
