pub mod Figures
mod FiguresRead
mod FiguresWritten
pub mod Joined
pub mod Lanes
pub mod Laws
pub mod Packing
pub mod Reading
pub mod Tested
pub mod Words
pub mod Writing
