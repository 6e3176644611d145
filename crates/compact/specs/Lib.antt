pub mod Compact
pub mod Promise
pub mod Unchanged
pub mod Fold
pub mod Tree
pub mod Cases
pub mod Machine
pub mod Pass
