pub mod Room
pub mod Rows
pub mod Report
pub mod Pieces
pub mod Refusal
