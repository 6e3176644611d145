pub mod Shown
pub mod Steps
pub mod Park
pub mod Reader
pub mod Reach
pub mod Column
pub mod Root
pub mod Heavier
