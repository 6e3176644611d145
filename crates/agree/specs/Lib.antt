pub mod Shown
pub mod Demand
pub mod Room
pub mod Twelve
