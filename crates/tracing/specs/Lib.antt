pub mod Names
pub mod Origins
pub mod Trails
pub mod Whys
pub mod Claims
