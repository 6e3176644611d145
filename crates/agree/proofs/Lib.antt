pub mod Picked
pub mod InRow
pub mod Shown
pub mod Demand
pub mod Room
pub mod Twelve
