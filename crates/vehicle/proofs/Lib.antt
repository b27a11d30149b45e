pub mod Places
pub mod Fitness
pub mod FitVehicle
