pub mod Channel
pub mod Rounding
pub mod Width
pub mod Kind
pub mod Units
pub mod Fitness
pub mod Claims
