pub mod Front
pub mod Head
pub mod Rows
pub mod Scan
pub mod Stores
pub mod Whole
