pub mod Walks
pub mod Blocks
pub mod Reader
pub mod Reach
pub mod Root
