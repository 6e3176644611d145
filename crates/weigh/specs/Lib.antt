pub mod Cost
pub mod Raised
pub mod Weighed
